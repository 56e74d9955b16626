-- `Same`: two entries by their names. `Search`: how far the search over a list has come.
mod Same
mod Search
