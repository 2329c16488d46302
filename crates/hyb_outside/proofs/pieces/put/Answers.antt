use Rattle.hyb_outside.proofs.Emits.{emits_out, emits_notes, emits_order}
use Rattle.hyb_outside.proofs.pieces.put.Goals as goal

pub returns-in-Out : goal.returns-in-Out
returns-in-Out g c = rw c.in-Out.is (emits_out _ _ _ _ _ _ c.offer.ensures.ok c.offer.ensures.failed)

pub returns-in-Notes : goal.returns-in-Notes
returns-in-Notes g c = rw c.in-Notes.is (emits_notes _ _ _ _ _ _ c.offer-in-Notes.ensures.ok c.offer-in-Notes.ensures.failed)

pub returns-in-Order : goal.returns-in-Order
returns-in-Order g c = rw c.in-Order.is (emits_order _ _ _ _ _ _ c.offer-in-Order.ensures.ok c.offer-in-Order.ensures.failed)
