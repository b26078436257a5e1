mod Padded
mod SameCells
