-- `Columns`: options and columns, one after the other. `Constraints`: constraints. `Names`: the names of a key. `Whole`: what is behind them.
mod Columns
mod Constraints
mod Names
mod Whole
