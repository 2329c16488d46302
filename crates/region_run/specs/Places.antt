-- Places among the unfinished iterations.
use Rattle.std.specs.Prelude.{ℕ, suc, List, [], ◌∷◌, ◌++◌, set, Option, None, Some, if◌then◌else◌}
use Rattle.interleaving.specs.Machine.{Store}
use Rattle.interleaving.specs.Region.{Iteration}

-- the numbers of the unfinished iterations, in order, where the first of all has the number `from`
abbrev pub numbers : {P V : Type 0} → (from : ℕ) → List (Iteration P V) → List ℕ
numbers from [] = []
numbers from (it ∷ more) = if it.finished then numbers (suc from) more else from ∷ numbers (suc from) more

-- a step of the live iteration at an index, with those that haven't begun after the live ones
abbrev pub spliced : {P V : Type 0} → (live : List (Iteration P V)) → (index : ℕ) → (rest : List (Iteration P V)) → Option (Store V × Iteration P V) → Option (Store V × List (Iteration P V))
spliced live index rest None = None
spliced live index rest (Some came) = Some (came.0, set live index came.1 ++ rest)
