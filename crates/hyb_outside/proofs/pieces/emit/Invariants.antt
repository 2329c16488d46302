use Rattle.std.proofs.Common.{map, drop}
use Rattle.hyb_outside.specs.Pieces.{sinks, Leaves}
use Rattle.hyb_outside.specs.Slices.{piece_of}
use Rattle.hyb_outside.proofs.pieces.emit.Given as goal

-- the pieces from the index on are left
abbrev pub invariant-loop-piece : goal.invariant-loop-piece
invariant-loop-piece g l =
    Leaves (map piece_of l.pieces)
    (sinks (g.O.Sink.seen l.initial.out) (g.N.Sink.seen l.initial.notes) (g.Q.Sink.seen l.initial.order))
    (map piece_of (drop l.piece-index l.pieces))
    (sinks (g.O.Sink.seen l.out) (g.N.Sink.seen l.notes) (g.Q.Sink.seen l.order))
