-- Each condition of the laws is needed: runs in which one of them doesn't hold, and the region doesn't leave what its iterations leave in turn.
use Rattle.std.proofs.Common.{ℕ, suc, ◌≡◌, List, [], ◌∷◌, Option, None, Some, if◌then◌else◌, refl}
use Rattle.interleaving.specs.Machine.{Store}
use Rattle.interleaving.specs.Region.{Iteration, Region, commit, step_at, place_of, begun, advanced_all}
use Rattle.interleaving.specs.Solo.{solo}
use Rattle.interleaving.proofs.SmallMachine.{plus, both, set, copy, accumulate, Worker, worker, small, small_with}
use Rattle.interleaving.proofs.SmallRuns.{modes, entry, shown, after_picks}

-- the store that iterations leave in turn
abbrev after_turns : List Worker → Store ℕ → Store ℕ
after_turns [] s = s
after_turns (p ∷ workers) s = after_turns workers (solo small 20 p s).store

-- what cells 0 to 3 hold after turns
abbrev turned : List Worker → List ℕ
turned workers = let s : Store ℕ = after_turns workers entry in s 0 ∷ s 1 ∷ s 2 ∷ s 3 ∷ []

-- a flow pair at a shared cell: the later iteration is picked first, and reads the old value (`Compatible.no_flow`)
abbrev shared_flow : List Worker
shared_flow = worker (set 2 5 ∷ []) ∷ worker (copy 2 3 ∷ []) ∷ []

shared_flow_in_turn : turned shared_flow ≡ 100 ∷ 100 ∷ 5 ∷ 5 ∷ []
shared_flow_in_turn = refl

shared_flow_first : shown (after_picks 2 shared_flow (0 ∷ 0 ∷ 0 ∷ 0 ∷ 0 ∷ [])) ≡ Some (100 ∷ 100 ∷ 5 ∷ 5 ∷ [])
shared_flow_first = refl

shared_flow_shows : shown (after_picks 2 shared_flow (1 ∷ 1 ∷ 1 ∷ 0 ∷ 0 ∷ [])) ≡ Some (100 ∷ 100 ∷ 5 ∷ 100 ∷ [])
shared_flow_shows = refl

-- a flow pair at a private cell: the later iteration reads it before the earlier one is committed (`Compatible.no_flow`)
abbrev private_flow : List Worker
private_flow = worker (set 1 5 ∷ []) ∷ worker (copy 1 3 ∷ []) ∷ []

private_flow_in_turn : turned private_flow ≡ 100 ∷ 5 ∷ 100 ∷ 5 ∷ []
private_flow_in_turn = refl

private_flow_first : shown (after_picks 2 private_flow (0 ∷ 0 ∷ 0 ∷ 0 ∷ 0 ∷ [])) ≡ Some (100 ∷ 5 ∷ 100 ∷ 5 ∷ [])
private_flow_first = refl

private_flow_shows : shown (after_picks 2 private_flow (1 ∷ 1 ∷ 1 ∷ 0 ∷ 0 ∷ [])) ≡ Some (100 ∷ 5 ∷ 100 ∷ 100 ∷ [])
private_flow_shows = refl

-- an anti pair at a shared cell: the later iteration writes it before the earlier one reads it (`Compatible.no_anti`)
abbrev shared_anti : List Worker
shared_anti = worker (copy 2 3 ∷ []) ∷ worker (set 2 9 ∷ []) ∷ []

shared_anti_in_turn : turned shared_anti ≡ 100 ∷ 100 ∷ 9 ∷ 100 ∷ []
shared_anti_in_turn = refl

shared_anti_first : shown (after_picks 2 shared_anti (0 ∷ 0 ∷ 0 ∷ 0 ∷ 0 ∷ [])) ≡ Some (100 ∷ 100 ∷ 9 ∷ 100 ∷ [])
shared_anti_first = refl

shared_anti_shows : shown (after_picks 2 shared_anti (1 ∷ 1 ∷ 0 ∷ 0 ∷ 0 ∷ [])) ≡ Some (100 ∷ 100 ∷ 9 ∷ 9 ∷ [])
shared_anti_shows = refl

-- an output pair at a shared cell: the earlier iteration writes it last (`Compatible.no_output`)
abbrev shared_output : List Worker
shared_output = worker (set 2 1 ∷ []) ∷ worker (set 2 9 ∷ []) ∷ []

shared_output_in_turn : turned shared_output ≡ 100 ∷ 100 ∷ 9 ∷ 100 ∷ []
shared_output_in_turn = refl

shared_output_first : shown (after_picks 2 shared_output (0 ∷ 0 ∷ 0 ∷ 0 ∷ [])) ≡ Some (100 ∷ 100 ∷ 9 ∷ 100 ∷ [])
shared_output_first = refl

shared_output_shows : shown (after_picks 2 shared_output (1 ∷ 1 ∷ 0 ∷ 0 ∷ [])) ≡ Some (100 ∷ 100 ∷ 1 ∷ 100 ∷ [])
shared_output_shows = refl

-- at a private cell anti and output pairs do no harm: each iteration has its copy, and commits are in order
private_anti_is_fine : shown (after_picks 2 (worker (copy 1 3 ∷ []) ∷ worker (set 1 9 ∷ []) ∷ []) (1 ∷ 1 ∷ 0 ∷ 0 ∷ 0 ∷ [])) ≡ Some (100 ∷ 9 ∷ 100 ∷ 100 ∷ [])
private_anti_is_fine = refl

private_output_is_fine : shown (after_picks 2 (worker (set 1 1 ∷ []) ∷ worker (set 1 9 ∷ []) ∷ []) (1 ∷ 1 ∷ 0 ∷ 0 ∷ [])) ≡ Some (100 ∷ 9 ∷ 100 ∷ 100 ∷ [])
private_output_is_fine = refl

-- a plain read of a reduced cell: it answers the partial, whatever is picked (`OnlyAccumulates`)
abbrev plain_read : List Worker
plain_read = worker (accumulate plus 0 5 ∷ []) ∷ worker (copy 0 3 ∷ []) ∷ []

plain_read_in_turn : turned plain_read ≡ 105 ∷ 100 ∷ 100 ∷ 105 ∷ []
plain_read_in_turn = refl

plain_read_shows : shown (after_picks 2 plain_read (0 ∷ 0 ∷ 0 ∷ 0 ∷ 0 ∷ 0 ∷ [])) ≡ Some (105 ∷ 100 ∷ 100 ∷ 0 ∷ [])
plain_read_shows = refl

-- a plain write of a reduced cell: it is added where it should be set (`OnlyAccumulates`)
abbrev plain_write : List Worker
plain_write = worker (set 0 5 ∷ []) ∷ worker (set 0 6 ∷ []) ∷ []

plain_write_in_turn : turned plain_write ≡ 6 ∷ 100 ∷ 100 ∷ 100 ∷ []
plain_write_in_turn = refl

plain_write_shows : shown (after_picks 2 plain_write (0 ∷ 0 ∷ 0 ∷ 0 ∷ [])) ≡ Some (111 ∷ 100 ∷ 100 ∷ 100 ∷ [])
plain_write_shows = refl

-- two operators at one reduced cell: the second works on an identity that isn't its own (`OnlyAccumulates`)
abbrev two_operators : List Worker
two_operators = worker (accumulate plus 0 5 ∷ []) ∷ worker (accumulate both 0 1 ∷ []) ∷ []

two_operators_in_turn : turned two_operators ≡ 1 ∷ 100 ∷ 100 ∷ 100 ∷ []
two_operators_in_turn = refl

two_operators_show : shown (after_picks 2 two_operators (0 ∷ 0 ∷ 0 ∷ 0 ∷ 0 ∷ 0 ∷ [])) ≡ Some (105 ∷ 100 ∷ 100 ∷ 100 ∷ [])
two_operators_show = refl

-- an identity that isn't one: each partial counts it once (`Accumulates.begins`)
abbrev two_sums : List Worker
two_sums = worker (accumulate plus 0 5 ∷ []) ∷ worker (accumulate plus 0 6 ∷ []) ∷ []

identity_in_turn : turned two_sums ≡ 111 ∷ 100 ∷ 100 ∷ 100 ∷ []
identity_in_turn = refl

identity_shows : shown (advanced_all (small_with (λ op. 1)) modes 2 (0 ∷ 0 ∷ 0 ∷ 0 ∷ 0 ∷ 0 ∷ []) (Some (begun two_sums entry))) ≡ Some (113 ∷ 100 ∷ 100 ∷ 100 ∷ [])
identity_shows = refl

-- commits in the order of finishing: a region that commits each finished iteration at once (`settled`)
abbrev settled_at_once : (committed : ℕ) → Store ℕ → List (Iteration Worker ℕ) → Region Worker ℕ
settled_at_once committed s [] = record { committed = committed; store = s; pending = [] }
settled_at_once committed s (it ∷ more) =
    if it.finished then settled_at_once (suc committed) (commit small modes s it.own) more
    else (let r : Region Worker ℕ = settled_at_once committed s more in record { committed = r.committed; store = r.store; pending = it ∷ r.pending })

abbrev settled_from_once : (committed : ℕ) → Option (Store ℕ × List (Iteration Worker ℕ)) → Option (Region Worker ℕ)
settled_from_once committed None = None
settled_from_once committed (Some r) = Some (settled_at_once committed r.0 r.1)

abbrev all_at_once : List ℕ → Option (Region Worker ℕ) → Option (Region Worker ℕ)
all_at_once picks None = None
all_at_once [] (Some r) = Some r
all_at_once (pick ∷ picks) (Some r) = all_at_once picks (settled_from_once r.committed (step_at small modes (place_of 2 r pick) r.store r.pending))

abbrev two_copies : List Worker
two_copies = worker (set 1 7 ∷ []) ∷ worker (set 1 8 ∷ []) ∷ []

copies_in_turn : turned two_copies ≡ 100 ∷ 8 ∷ 100 ∷ 100 ∷ []
copies_in_turn = refl

copies_in_order : shown (after_picks 2 two_copies (1 ∷ 1 ∷ 0 ∷ 0 ∷ [])) ≡ Some (100 ∷ 8 ∷ 100 ∷ 100 ∷ [])
copies_in_order = refl

copies_at_once_first : shown (all_at_once (0 ∷ 0 ∷ 0 ∷ 0 ∷ []) (Some (begun two_copies entry))) ≡ Some (100 ∷ 8 ∷ 100 ∷ 100 ∷ [])
copies_at_once_first = refl

copies_at_once_show : shown (all_at_once (1 ∷ 1 ∷ 0 ∷ 0 ∷ []) (Some (begun two_copies entry))) ≡ Some (100 ∷ 7 ∷ 100 ∷ 100 ∷ [])
copies_at_once_show = refl
