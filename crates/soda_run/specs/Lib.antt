pub mod pieces
