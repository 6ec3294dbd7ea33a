pub mod PieceBytes
