use Rattle.std.proofs.Common.{◌≡◌, length}
use Rattle.std.specs.Vec.Iter.{into_iter_items, into_iter_len}
use Rattle.f77_front.specs.Front.{listing_of}
use Rattle.f77_front.proofs.Listings.{joined}
use Rattle.f77_front.proofs.statements.listing.Given as goal

-- whatever the rest of the cards makes of what was listed is made of all of them
abbrev pub invariant-loop-card : goal.invariant-loop-card
invariant-loop-card l = record {
  counted : into_iter_len l.card-iterator ≡ length (into_iter_items l.card-iterator);
  rest : joined l.all (listing_of (into_iter_items l.card-iterator)) ≡ listing_of l.fn.cards;
}
