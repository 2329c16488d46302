-- No more loops are active than a program has.
use Rattle.std.proofs.Common.{◌≡◌, ℕ, zero, suc, ◌+◌, ◌<◌, ◌≤◌, List, [], ◌∷◌, length, take, Option, None, Some, refl, sym, ap, subst, ◌∙◌, arith}
use Rattle.std.specs.Option.{option_map_or}
use Rattle.std.proofs.lemmas.List.{length-append}
use Rattle.f77_ast.specs.declared.program.Listed.{Listed}
use Rattle.f77_ast.specs.declared.program.Loop.{Loop}
use Rattle.f77_ast.specs.declared.program.Program.{Program}
use Rattle.f77_ast.specs.declared.program.Unit.{Unit as ProgramUnit}
use Rattle.f77_structure.specs.Loops.{loop_from, loops_in, loops_among}
use Rattle.f77_structure.specs.Ranges.{IsDo}
use Rattle.f77_structure.specs.Statements.{terminal_label}
use Rattle.f77_structure.specs.Units.{listing_of}
use Rattle.f77_meaning.specs.Process.{ActiveLoop}
use Rattle.f77_meaning.specs.Sound.{AreActive, IsSound}

-- one more where there is a label
abbrev counted : Option ℕ → ℕ → ℕ
counted None n = n
counted (Some label) n = suc n

-- the number of DO statements among some statements
abbrev dos : List Listed → ℕ
dos [] = 0
dos (x ∷ xs) = counted (terminal_label x.stmt) (dos xs)

counted_more : (t : Option ℕ) (a b : ℕ) → a ≤ b → counted t a ≤ counted t b
counted_more None a b h = h
counted_more (Some label) a b h = omega (arith, h)

-- among more statements there are no fewer of them
dos_of_more : (a b : ℕ) (xs : List Listed) → a ≤ b → dos (take a xs) ≤ dos (take b xs)
dos_of_more zero b xs h = omega arith
dos_of_more (suc a) zero xs h = absurd (omega (arith, h))
dos_of_more (suc a) (suc b) [] h = omega arith
dos_of_more (suc a) (suc b) (x ∷ xs) h = counted_more (terminal_label x.stmt) (dos (take a xs)) (dos (take b xs)) (dos_of_more a b xs (omega (arith, h)))

dos_of_all : (a : ℕ) (xs : List Listed) → dos (take a xs) ≤ dos xs
dos_of_all zero xs = omega arith
dos_of_all (suc a) [] = omega arith
dos_of_all (suc a) (x ∷ xs) = counted_more (terminal_label x.stmt) (dos (take a xs)) (dos xs) (dos_of_all a xs)

counted_suc : (t : Option ℕ) (n : ℕ) → counted t (suc n) ≡ suc (counted t n)
counted_suc None n = refl
counted_suc (Some label) n = refl

-- with a DO statement there is one more
dos_with : (at label : ℕ) (xs : List Listed) → IsDo xs at label → dos (take (suc at) xs) ≡ suc (dos (take at xs))
dos_with at label [] d = absurd (cc)
dos_with zero label (x ∷ xs) d =
    let same : x ≡ d.listed = cc in
    ap (λ t. counted t 0) (ap (λ l. terminal_label l.stmt) same ∙ d.names)
dos_with (suc at) label (x ∷ xs) d =
    ap (counted (terminal_label x.stmt)) (dos_with at label xs (record { listed = d.listed; stands = d.stands; names = d.names }))
    ∙ counted_suc (terminal_label x.stmt) (dos (take at xs))

-- no more loops are active at a place than there are DO statements before it
active_bound : (program : Program) (u low high : ℕ) (active : List ActiveLoop) → AreActive program u low high active → length active ≤ dos (take low (listing_of program.units u))
active_bound program u low high [] a = omega arith
active_bound program u low high (loop ∷ outer) a =
    let listing : List Listed = listing_of program.units u in
    let rest : length outer ≤ dos (take a.0.at listing) = active_bound program u a.0.at loop.last outer a.1 in
    let more : dos (take (suc a.0.at) listing) ≤ dos (take low listing) = dos_of_more (suc a.0.at) low listing (omega (arith, a.0.from, a.0.above)) in
    omega (arith, rest, more, dos_with a.0.at a.0.label listing a.0.begins)

-- each DO statement of a unit has its loop
length_loops_in : (unit ordinal number : ℕ) (listing : List Listed) → length (loops_in unit ordinal number listing) ≡ dos listing
length_loops_in unit ordinal number [] = refl
length_loops_in unit ordinal number (x ∷ xs) = by (terminal_label x.stmt) (length_loops_in unit ordinal (suc number) xs) (length_loops_in unit (suc ordinal) (suc number) xs)
  where
    by : (t : Option ℕ) → length (loops_in unit ordinal (suc number) xs) ≡ dos xs → length (loops_in unit (suc ordinal) (suc number) xs) ≡ dos xs → length (option_map_or (λ label. loop_from unit ordinal number x.card.line label xs ∷ loops_in unit (suc ordinal) (suc number) xs) t (loops_in unit ordinal (suc number) xs)) ≡ counted t (dos xs)
    by None plain rest = plain
    by (Some label) plain rest = ap suc rest

-- a unit has no more of them than the program
dos_among : (number ordinal first u : ℕ) (units : List ProgramUnit) → dos (listing_of units u) ≤ length (loops_among number ordinal first units)
dos_among number ordinal first u [] = omega arith
dos_among number ordinal first zero (x ∷ units) =
    let loops : List Loop = loops_in number ordinal first x.listing in
    omega (arith, length_loops_in number ordinal first x.listing, length-append loops (loops_among (suc number) (ordinal + length loops) (first + length x.listing) units))
dos_among number ordinal first (suc u) (x ∷ units) =
    let loops : List Loop = loops_in number ordinal first x.listing in
    let rest : dos (listing_of units u) ≤ length (loops_among (suc number) (ordinal + length loops) (first + length x.listing) units) = dos_among (suc number) (ordinal + length loops) (first + length x.listing) u units in
    omega (arith, rest, length-append loops (loops_among (suc number) (ordinal + length loops) (first + length x.listing) units))

-- where a process is at a DO statement, fewer loops are active than the program has
pub fewer_active : (program : Program) (u at label : ℕ) (active : List ActiveLoop) → IsSound program → IsDo (listing_of program.units u) at label → AreActive program u at at active → length active < length program.loops
fewer_active program u at label active sound begins actives =
    let listing : List Listed = listing_of program.units u in
    let loops : dos listing ≤ length program.loops = subst (λ loops. dos listing ≤ length loops) (sym sound.loops) (dos_among 0 1 1 u program.units) in
    omega (arith, loops, active_bound program u at at active actives, dos_with at label listing begins, dos_of_all (suc at) listing)

-- no more loops are active than the program has
pub no_more_active : (program : Program) (u low high : ℕ) (active : List ActiveLoop) → IsSound program → AreActive program u low high active → length active ≤ length program.loops
no_more_active program u low high active sound actives =
    let listing : List Listed = listing_of program.units u in
    let loops : dos listing ≤ length program.loops = subst (λ loops. dos listing ≤ length loops) (sym sound.loops) (dos_among 0 1 1 u program.units) in
    omega (arith, loops, active_bound program u low high active actives, dos_of_all low listing)
