-- The product of uses.
use Rattle.std.proofs.Common.{refl}
use Rattle.uses.specs.Use.{untouched, read_only, written_first, read_then_written, ProductIsAssociative, UntouchedIsNeutral, TestsOfProducts}

pub product-assoc : ProductIsAssociative
product-assoc untouched v w = refl
product-assoc read_only untouched w = refl
product-assoc read_only read_only untouched = refl
product-assoc read_only read_only read_only = refl
product-assoc read_only read_only written_first = refl
product-assoc read_only read_only read_then_written = refl
product-assoc read_only written_first w = refl
product-assoc read_only read_then_written w = refl
product-assoc written_first v w = refl
product-assoc read_then_written v w = refl

pub untouched-neutral : UntouchedIsNeutral
untouched-neutral untouched = (refl, refl)
untouched-neutral read_only = (refl, refl)
untouched-neutral written_first = (refl, refl)
untouched-neutral read_then_written = (refl, refl)

pub product-tests : TestsOfProducts
product-tests untouched untouched = (refl, refl)
product-tests untouched read_only = (refl, refl)
product-tests untouched written_first = (refl, refl)
product-tests untouched read_then_written = (refl, refl)
product-tests read_only untouched = (refl, refl)
product-tests read_only read_only = (refl, refl)
product-tests read_only written_first = (refl, refl)
product-tests read_only read_then_written = (refl, refl)
product-tests written_first v = (refl, refl)
product-tests read_then_written v = (refl, refl)
