-- What the proofs of several functions use, and the laws of one function's answers.
mod Known
mod Deep
mod Scan
