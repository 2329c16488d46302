-- Pieces as a call takes them: the bytes are a slice.
use Rattle.hyb_outside.specs.declared.pieces.Piece.{Piece as SlicePiece}
use Rattle.hyb_outside.specs.Pieces.{Piece, piece}

-- the piece itself
abbrev pub piece_of : SlicePiece → Piece
piece_of p = piece p.to p.bytes.now
