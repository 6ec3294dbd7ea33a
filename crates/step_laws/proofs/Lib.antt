-- a symbolic step is one line
pub mod ReturnPiece
