-- The test of a number, and what it tests.
use Rattle.std.proofs.Common.{◌^◌, ℤ, pos, negsuc, w64, length, FitsSigned}
use Rattle.std.specs.Bool.{Decides}
use Rattle.std.proofs.lemmas.Bool.Decides.{Decides-and, Decides-ltb}
use Rattle.f77_io.specs.Number.{digits_of, fits_64, number_of, TestsNumbers}

-- 64 bits
fits_decides : (z : ℤ) → Decides (fits_64 z) (FitsSigned w64 z)
fits_decides (pos n) = (λ e. record { sfits = (Decides-ltb n (2 ^ 63)).0 e }, λ f. (Decides-ltb n (2 ^ 63)).1 f.sfits)
fits_decides (negsuc n) = (λ e. record { sfits = (Decides-ltb n (2 ^ 63)).0 e }, λ f. (Decides-ltb n (2 ^ 63)).1 f.sfits)

-- the test is true exactly of the numbers of 64 bits
pub is_number_decides : TestsNumbers
is_number_decides word =
    Decides-and _ _
    (Decides-and _ _ (λ e. e, λ e. e) (Decides-ltb 0 (length (digits_of word))))
    (fits_decides (number_of word))
