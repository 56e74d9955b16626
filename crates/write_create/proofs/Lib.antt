-- `Ids`: the ids of a key, gathered one by one. `Columns`: a column and the list of them, written. `Whole`: the image of all.
mod Ids
mod Columns
mod Whole
