-- The loop of a DO statement, found by its place.
use Rattle.std.proofs.Common.{◌≡◌, ℕ, zero, suc, ◌+◌, ◌-◌, ◌<◌, ◌==◌, Bool, true, false, cond, List, [], ◌∷◌, ◌++◌, length, Option, None, Some, drop, refl, sym, ap, subst, ◌∙◌, arith}
use Rattle.std.specs.Option.{option_map_or}
use Rattle.f77_ast.specs.declared.program.Listed.{Listed}
use Rattle.f77_ast.specs.declared.program.Loop.{Loop}
use Rattle.f77_ast.specs.declared.program.Unit.{Unit as ProgramUnit}
use Rattle.f77_structure.specs.Labels.{distance_to}
use Rattle.f77_structure.specs.Loops.{loop_from, loops_in, loops_among, loops_of, loop_with_range_from}
use Rattle.f77_structure.specs.Statements.{terminal_label}
use Rattle.f77_structure.specs.Units.{statements_before, statement_number, listing_of}
use Rattle.f77_structure.specs.Ranges.{IsDo}

-- the loop of the DO statement `number` of the file, which names this label and is followed by these statements, is found
pub record Found (loops : List Loop) (number label : ℕ) (following : List Listed) : Type 0 where
  pub unit : ℕ
  pub ordinal : ℕ
  pub line : ℕ
  pub found : loop_with_range_from loops (number + 1) ≡ Some (loop_from unit ordinal number line label following)

-- equal numbers are told to be equal, and others not
same_number : (a b : ℕ) → a ≡ b → (a == b) ≡ true
same_number a b e = grind (arith, e)

other_number : (a b : ℕ) → a < b → (a == b) ≡ false
other_number a b h = grind (arith, h)

-- the first loop is the one
found_first : (loop : Loop) (loops : List Loop) (number : ℕ) → loop.from ≡ number → loop_with_range_from (loop ∷ loops) number ≡ Some loop
found_first loop loops number e = ap (λ b. cond b (Some loop) (loop_with_range_from loops number)) (same_number loop.from number e)

-- the first loop begins before
found_later : (loop : Loop) (loops : List Loop) (number : ℕ) → loop.from < number → loop_with_range_from (loop ∷ loops) number ≡ loop_with_range_from loops number
found_later loop loops number h = ap (λ b. cond b (Some loop) (loop_with_range_from loops number)) (other_number loop.from number h)

-- the loop of a DO statement is found among those of its unit
found_in : (unit ordinal number k n label : ℕ) (listing : List Listed) → n ≡ number + k → IsDo listing k label → Found (loops_in unit ordinal number listing) n label (drop (k + 1) listing)
found_in unit ordinal number k n label [] e d = absurd (cc)
found_in unit ordinal number zero n label (x ∷ xs) e d =
    let same : x ≡ d.listed = cc in
    let names : terminal_label x.stmt ≡ Some label = ap (λ l. terminal_label l.stmt) same ∙ d.names in
    let here : n ≡ number = omega (arith, e) in
    subst (λ m. Found (loops_in unit ordinal number (x ∷ xs)) m label xs) (sym here) (record {
      unit = unit;
      ordinal = ordinal;
      line = x.card.line;
      found = rw names (found_first (loop_from unit ordinal number x.card.line label xs) (loops_in unit (suc ordinal) (suc number) xs) (number + 1) refl);
    })
found_in unit ordinal number (suc k) n label (x ∷ xs) e d = subst (λ m. Found (loops_in unit ordinal number (x ∷ xs)) n label (drop m (x ∷ xs))) after (by (found_in unit ordinal (suc number) k n label xs next behind) (found_in unit (suc ordinal) (suc number) k n label xs next behind) (terminal_label x.stmt))
  where
    after : suc (k + 1) ≡ suc k + 1
    after = omega arith

    next : n ≡ suc number + k
    next = omega (arith, e)

    behind : IsDo xs k label
    behind = record { listed = d.listed; stands = d.stands; names = d.names }

    by : Found (loops_in unit ordinal (suc number) xs) n label (drop (k + 1) xs) → Found (loops_in unit (suc ordinal) (suc number) xs) n label (drop (k + 1) xs) → (t : Option ℕ) → Found (option_map_or (λ other. loop_from unit ordinal number x.card.line other xs ∷ loops_in unit (suc ordinal) (suc number) xs) t (loops_in unit ordinal (suc number) xs)) n label (drop (k + 1) xs)
    by plain rest None = plain
    by plain rest (Some other) =
        record {
          unit = rest.unit;
          ordinal = rest.ordinal;
          line = rest.line;
          found = found_later (loop_from unit ordinal number x.card.line other xs) (loops_in unit (suc ordinal) (suc number) xs) (n + 1) (omega (arith, e)) ∙ rest.found;
        }

-- no loop of these statements begins behind them
none_in : (unit ordinal number n : ℕ) (listing : List Listed) → number + length listing < n → loop_with_range_from (loops_in unit ordinal number listing) n ≡ None
none_in unit ordinal number n [] h = refl
none_in unit ordinal number n (x ∷ xs) h = by (none_in unit ordinal (suc number) n xs next) (none_in unit (suc ordinal) (suc number) n xs next) (terminal_label x.stmt)
  where
    next : suc number + length xs < n
    next = omega (arith, h)

    by : loop_with_range_from (loops_in unit ordinal (suc number) xs) n ≡ None → loop_with_range_from (loops_in unit (suc ordinal) (suc number) xs) n ≡ None → (t : Option ℕ) → loop_with_range_from (option_map_or (λ other. loop_from unit ordinal number x.card.line other xs ∷ loops_in unit (suc ordinal) (suc number) xs) t (loops_in unit ordinal (suc number) xs)) n ≡ None
    by plain rest None = plain
    by plain rest (Some other) = found_later (loop_from unit ordinal number x.card.line other xs) (loops_in unit (suc ordinal) (suc number) xs) n (omega (arith, h)) ∙ rest

-- what is found among the first loops is found among all
found_before : (first second : List Loop) (n : ℕ) (loop : Loop) → loop_with_range_from first n ≡ Some loop → loop_with_range_from (first ++ second) n ≡ Some loop
found_before [] second n loop e = absurd (cc)
found_before (x ∷ xs) second n loop e = by (found_before xs second n loop) (x.from == n) e
  where
    by : (loop_with_range_from xs n ≡ Some loop → loop_with_range_from (xs ++ second) n ≡ Some loop) → (b : Bool) → cond b (Some x) (loop_with_range_from xs n) ≡ Some loop → cond b (Some x) (loop_with_range_from (xs ++ second) n) ≡ Some loop
    by rest true h = h
    by rest false h = rest h

-- where nothing is found among the first loops, what is found is found among the others
found_behind : (first second : List Loop) (n : ℕ) → loop_with_range_from first n ≡ None → loop_with_range_from (first ++ second) n ≡ loop_with_range_from second n
found_behind [] second n e = refl
found_behind (x ∷ xs) second n e = by (found_behind xs second n) (x.from == n) e
  where
    by : (loop_with_range_from xs n ≡ None → loop_with_range_from (xs ++ second) n ≡ loop_with_range_from second n) → (b : Bool) → cond b (Some x) (loop_with_range_from xs n) ≡ None → cond b (Some x) (loop_with_range_from (xs ++ second) n) ≡ loop_with_range_from second n
    by rest true h = absurd (cc)
    by rest false h = rest h

-- the loop of a DO statement is found among those of some units
found_among : (number ordinal first u at n label : ℕ) (units : List ProgramUnit) → n ≡ first + (statements_before units u + at) → IsDo (listing_of units u) at label → Found (loops_among number ordinal first units) n label (drop (at + 1) (listing_of units u))
found_among number ordinal first u at n label [] e d = absurd (cc)
found_among number ordinal first zero at n label (x ∷ units) e d =
    let here : Found (loops_in number ordinal first x.listing) n label (drop (at + 1) x.listing) = found_in number ordinal first at n label x.listing (omega (arith, e)) d in
    record {
      unit = here.unit;
      ordinal = here.ordinal;
      line = here.line;
      found = found_before (loops_in number ordinal first x.listing) (loops_among (suc number) (ordinal + length (loops_in number ordinal first x.listing)) (first + length x.listing) units) (n + 1) _ here.found;
    }
found_among number ordinal first (suc u) at n label (x ∷ units) e d =
    let others : List Loop = loops_in number ordinal first x.listing in
    let next : ℕ = ordinal + length others in
    let rest : Found (loops_among (suc number) next (first + length x.listing) units) n label (drop (at + 1) (listing_of units u)) = found_among (suc number) next (first + length x.listing) u at n label units (omega (arith, e)) d in
    record {
      unit = rest.unit;
      ordinal = rest.ordinal;
      line = rest.line;
      found = found_behind others (loops_among (suc number) next (first + length x.listing) units) (n + 1) (none_in number ordinal first (n + 1) x.listing (omega (arith, e))) ∙ rest.found;
    }

-- the loop of the DO statement at a place of a unit has its range
pub range_of_loop : (units : List ProgramUnit) (u at label : ℕ) (loop : Loop) → IsDo (listing_of units u) at label → loop_with_range_from (loops_of units) (statement_number units u at + 1) ≡ Some loop → loop.last - loop.from ≡ distance_to label (drop (at + 1) (listing_of units u))
range_of_loop units u at label loop d e =
    let here : Found (loops_of units) (statement_number units u at) label (drop (at + 1) (listing_of units u)) = found_among 0 1 1 u at (statement_number units u at) label units refl d in
    let same : loop_from here.unit here.ordinal (statement_number units u at) here.line label (drop (at + 1) (listing_of units u)) ≡ loop = cc in
    let last = ap (λ l. l.last) same in
    let from = ap (λ l. l.from) same in
    omega (arith, last, from)
