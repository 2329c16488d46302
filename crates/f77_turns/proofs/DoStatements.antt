-- The loop of a DO statement is the first whose range begins with the statement after it.
use Rattle.std.proofs.Common.{◌≡◌, ℕ, zero, suc, ◌+◌, ◌<◌, ◌==◌, Bool, true, false, cond, List, [], ◌∷◌, ◌++◌, length, Option, None, Some, drop, refl, sym, ap, subst, ◌∙◌, arith}
use Rattle.std.specs.Option.{option_map_or}
use Rattle.f77_ast.specs.declared.program.Listed.{Listed}
use Rattle.f77_ast.specs.declared.program.Loop.{Loop}
use Rattle.f77_ast.specs.declared.program.Unit.{Unit as ProgramUnit}
use Rattle.f77_structure.specs.Loops.{loop_from, loops_in, loops_among, loops_of, loop_with_range_from}
use Rattle.f77_structure.specs.Ranges.{IsDo}
use Rattle.f77_structure.specs.Statements.{terminal_label}
use Rattle.f77_structure.specs.Units.{listing_of, statement_number, statements_before}

-- the loop of a DO statement of a unit, which is statement `number` of the file, of this line and label, is found by what follows it
pub record Found (loops : List Loop) (unit number line label : ℕ) (following : List Listed) : Type 0 where
  pub ordinal : ℕ
  pub found : loop_with_range_from loops (number + 1) ≡ Some (loop_from unit ordinal number line label following)

found_first : (loop : Loop) (loops : List Loop) (number : ℕ) → loop.from ≡ number → loop_with_range_from (loop ∷ loops) number ≡ Some loop
found_first loop loops number e = ap (λ b. cond b (Some loop) (loop_with_range_from loops number)) (same loop.from number e)
  where
    same : (a b : ℕ) → a ≡ b → (a == b) ≡ true
    same a b e = grind (arith, e)

found_later : (loop : Loop) (loops : List Loop) (number : ℕ) → loop.from < number → loop_with_range_from (loop ∷ loops) number ≡ loop_with_range_from loops number
found_later loop loops number h = ap (λ b. cond b (Some loop) (loop_with_range_from loops number)) (other loop.from number h)
  where
    other : (a b : ℕ) → a < b → (a == b) ≡ false
    other a b h = grind (arith, h)

-- the loops of some statements with one more before them, which may be a DO statement
abbrev with_first : (unit ordinal number : ℕ) (x : Listed) (xs : List Listed) → Option ℕ → List Loop
with_first unit ordinal number x xs label =
    option_map_or (λ other. loop_from unit ordinal number x.card.line other xs ∷ loops_in unit (suc ordinal) (suc number) xs) label (loops_in unit ordinal (suc number) xs)

-- it is found among those of its unit
found_in : (unit ordinal number k n label : ℕ) (listing : List Listed) → n ≡ number + k → (d : IsDo listing k label) → Found (loops_in unit ordinal number listing) unit n d.listed.card.line label (drop (k + 1) listing)
found_in unit ordinal number k n label [] e d = absurd (cc)
found_in unit ordinal number zero n label (x ∷ xs) e d =
    let same : x ≡ d.listed = cc in
    let names : terminal_label x.stmt ≡ Some label = ap (λ l. terminal_label l.stmt) same ∙ d.names in
    let here : number ≡ n = omega (arith, e) in
    subst (λ l. Found (with_first unit ordinal number x xs (terminal_label x.stmt)) unit n l.card.line label xs) same
    (subst (λ m. Found (with_first unit ordinal number x xs (terminal_label x.stmt)) unit m x.card.line label xs) here
    (subst (λ o. Found (with_first unit ordinal number x xs o) unit number x.card.line label xs) (sym names)
    (record { ordinal = ordinal; found = found_first (loop_from unit ordinal number x.card.line label xs) (loops_in unit (suc ordinal) (suc number) xs) (number + 1) refl })))
found_in unit ordinal number (suc k) n label (x ∷ xs) e d =
    subst (λ m. Found (loops_in unit ordinal number (x ∷ xs)) unit n d.listed.card.line label (drop m (x ∷ xs))) after
    (by (found_in unit ordinal (suc number) k n label xs next behind) (found_in unit (suc ordinal) (suc number) k n label xs next behind) (terminal_label x.stmt))
  where
    after : suc (k + 1) ≡ suc k + 1
    after = omega arith

    next : n ≡ suc number + k
    next = omega (arith, e)

    behind : IsDo xs k label
    behind = record { listed = d.listed; stands = d.stands; names = d.names }

    by : Found (loops_in unit ordinal (suc number) xs) unit n d.listed.card.line label (drop (k + 1) xs) → Found (loops_in unit (suc ordinal) (suc number) xs) unit n d.listed.card.line label (drop (k + 1) xs) → (o : Option ℕ) →
        Found (with_first unit ordinal number x xs o) unit n d.listed.card.line label (drop (k + 1) xs)
    by plain rest None = plain
    by plain rest (Some other) = record {
      ordinal = rest.ordinal;
      found = found_later (loop_from unit ordinal number x.card.line other xs) (loops_in unit (suc ordinal) (suc number) xs) (n + 1) (omega (arith, e)) ∙ rest.found;
    }

-- no loop of some statements begins after them
none_in : (unit ordinal number n : ℕ) (listing : List Listed) → number + length listing < n → loop_with_range_from (loops_in unit ordinal number listing) n ≡ None
none_in unit ordinal number n [] h = refl
none_in unit ordinal number n (x ∷ xs) h = by (none_in unit ordinal (suc number) n xs next) (none_in unit (suc ordinal) (suc number) n xs next) (terminal_label x.stmt)
  where
    next : suc number + length xs < n
    next = omega (arith, h)

    by : loop_with_range_from (loops_in unit ordinal (suc number) xs) n ≡ None → loop_with_range_from (loops_in unit (suc ordinal) (suc number) xs) n ≡ None → (o : Option ℕ) → loop_with_range_from (with_first unit ordinal number x xs o) n ≡ None
    by plain rest None = plain
    by plain rest (Some other) = found_later (loop_from unit ordinal number x.card.line other xs) (loops_in unit (suc ordinal) (suc number) xs) n (omega (arith, h)) ∙ rest

-- what is found among the first loops is found among all
found_before : (first second : List Loop) (n : ℕ) (loop : Loop) → loop_with_range_from first n ≡ Some loop → loop_with_range_from (first ++ second) n ≡ Some loop
found_before [] second n loop e = absurd (cc)
found_before (x ∷ xs) second n loop e = by (found_before xs second n loop) (x.from == n) e
  where
    by : (loop_with_range_from xs n ≡ Some loop → loop_with_range_from (xs ++ second) n ≡ Some loop) → (b : Bool) → cond b (Some x) (loop_with_range_from xs n) ≡ Some loop → cond b (Some x) (loop_with_range_from (xs ++ second) n) ≡ Some loop
    by rest true h = h
    by rest false h = rest h

-- where nothing is found among the first loops, what is found is found among the others
found_after : (first second : List Loop) (n : ℕ) → loop_with_range_from first n ≡ None → loop_with_range_from (first ++ second) n ≡ loop_with_range_from second n
found_after [] second n e = refl
found_after (x ∷ xs) second n e = by (found_after xs second n) (x.from == n) e
  where
    by : (loop_with_range_from xs n ≡ None → loop_with_range_from (xs ++ second) n ≡ loop_with_range_from second n) → (b : Bool) → cond b (Some x) (loop_with_range_from xs n) ≡ None → cond b (Some x) (loop_with_range_from (xs ++ second) n) ≡ loop_with_range_from second n
    by rest true h = absurd (cc)
    by rest false h = rest h

-- it is found among those of some units, the first of which is unit `place`
found_among : (place unit ordinal first u at n label : ℕ) (units : List ProgramUnit) → unit ≡ place + u → n ≡ first + (statements_before units u + at) → (d : IsDo (listing_of units u) at label) →
    Found (loops_among place ordinal first units) unit n d.listed.card.line label (drop (at + 1) (listing_of units u))
found_among place unit ordinal first u at n label [] w e d = absurd (cc)
found_among place unit ordinal first zero at n label (x ∷ units) w e d =
    let here : List Loop = loops_in place ordinal first x.listing in
    let same : place ≡ unit = omega (arith, w) in
    let f : Found here place n d.listed.card.line label (drop (at + 1) x.listing) = found_in place ordinal first at n label x.listing (omega (arith, e)) d in
    subst (λ v. Found (loops_among place ordinal first (x ∷ units)) v n d.listed.card.line label (drop (at + 1) x.listing)) same
    (record { ordinal = f.ordinal; found = found_before here (loops_among (suc place) (ordinal + length here) (first + length x.listing) units) (n + 1) _ f.found })
found_among place unit ordinal first (suc u) at n label (x ∷ units) w e d =
    let here : List Loop = loops_in place ordinal first x.listing in
    let f : Found (loops_among (suc place) (ordinal + length here) (first + length x.listing) units) unit n d.listed.card.line label (drop (at + 1) (listing_of units u)) =
    found_among (suc place) unit (ordinal + length here) (first + length x.listing) u at n label units (omega (arith, w)) (omega (arith, e)) d in
    record {
      ordinal = f.ordinal;
      found = found_after here (loops_among (suc place) (ordinal + length here) (first + length x.listing) units) (n + 1) (none_in place ordinal first (n + 1) x.listing (omega (arith, e))) ∙ f.found;
    }

-- the loop of a DO statement is found among those of the file
pub found_of : (units : List ProgramUnit) (unit at label : ℕ) (d : IsDo (listing_of units unit) at label) → Found (loops_of units) unit (statement_number units unit at) d.listed.card.line label (drop (at + 1) (listing_of units unit))
found_of units unit at label d = found_among 0 unit 1 1 unit at (statement_number units unit at) label units (omega arith) refl d
