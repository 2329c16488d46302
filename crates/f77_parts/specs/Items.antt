-- The items of READ and PRINT (ANSI X3.9-1978, sections 12.8.2 and 12.8.2.3).
use Rattle.std.specs.Prelude.{ℕ, zero, suc, Bool, true, false, not, ◌&&◌, if◌then◌else◌, List, [], ◌∷◌, ◌++◌, length, drop, Some, codes}
use Rattle.f77_ast.specs.declared.expr.Expr.{Expr}
use Rattle.f77_ast.specs.declared.expr.Expr.TheVariants as expr
use Rattle.f77_ast.specs.declared.stmt.Item.{Item}
use Rattle.f77_ast.specs.declared.stmt.Item.TheVariants as item
use Rattle.f77_ast.specs.declared.stmt.LoopControl.{LoopControl}
use Rattle.f77_exprs.specs.Operators.{Text}
use Rattle.f77_exprs.specs.Reading.{Parser, and_then, ◌>>=◌, ◌>>◌, pure, refuse, sees, alphanumerics}
use Rattle.f77_forms.specs.Form.{Form, made, an_expr, a_ref, Spells, read, expect_word, a_part}
use Rattle.f77_parts.specs.Parts.{control}
use Rattle.f77_forms.specs.Depth.{has_at_depth}

-- a plain item: a ref of READ, an expr of PRINT
abbrev pub plain : Bool → Form Expr
plain true = made (λ r. expr.Ref r) a_ref
plain false = an_expr

mutual
  -- item: expr, or ref of READ; `(` list(item) `,` name `=` expr `,` expr [`,` expr] `)`
  pub data SpellsItem (refs : Bool) : Item → Text → Type 0 where
    -- item: expr (section 12.8.2), of READ ref
    plain_item : {a : Expr} {s : Text} → Spells (plain refs) a s → SpellsItem refs (item.Plain a) s
    -- item: `(` list(item) `,` name `=` expr `,` expr [`,` expr] `)` (section 12.8.2.3)
    implied_do : {all : List Item} {c : LoopControl} {s t : Text} → SpellsItems refs all s → Spells control c t → SpellsItem refs (item.Implied all c) (40 ∷ (s ++ 44 ∷ (t ++ 41 ∷ [])))

  -- list(item)
  pub data SpellsItems (refs : Bool) : List Item → Text → Type 0 where
    -- list(item): item
    last_item : {one : Item} {s : Text} → SpellsItem refs one s → SpellsItems refs (one ∷ []) s
    -- list(item): item `,` list(item)
    more_items : {one : Item} {all : List Item} {s t : Text} → SpellsItem refs one s → SpellsItems refs all t → SpellsItems refs (one ∷ all) (s ++ 44 ∷ t)

-- ---- how they are read

-- whether a text begins with letters and digits, or nothing, and then `=`
abbrev pub is_control : Text → Bool
is_control i = sees 61 (drop (alphanumerics i) i)

-- whether a text begins with parentheses that hold a comma
abbrev pub is_implied : Text → Bool
is_implied i = sees 40 i && has_at_depth 44 1 false 0 i

-- whether a comma comes next, and behind it another item
abbrev pub goes_on : Text → Bool
goes_on i = sees 44 i && not (is_control (drop 1 i))

-- more items, so many at most, after some that were found
unfoldable pub items_behind : Parser Item → ℕ → List Item → Parser (List Item)
items_behind p zero found = pure found
items_behind p (suc turns) found = λ i. if goes_on i then and_then (p (drop 1 i)) (λ a. items_behind p turns (found ++ a ∷ [])) else Some (found, i)

-- list(item)
abbrev pub items_of : Parser Item → Parser (List Item)
items_of p = p >>= (λ a. λ i. items_behind p (length i) (a ∷ []) i)

-- `(` list(item) `,` name `=` expr `,` expr [`,` expr] `)`
abbrev pub implied : ℕ → Parser (List Item) → Parser Item
implied d inner = expect_word (codes "(") >> (inner >>= (λ all. expect_word (codes ",") >> (read d control >>= (λ c. expect_word (codes ")") >> pure (item.Implied all c)))))

-- item
unfoldable pub item_of : Bool → ℕ → Parser (List Item) → Parser Item
item_of refs d inner = λ i. if is_implied i then implied d inner i else and_then (read d (plain refs) i) (λ a. pure (item.Plain a))

-- list(item), in which implied-DO lists nest less deep than this
unfoldable pub items_within : Bool → ℕ → Parser (List Item)
items_within refs zero = refuse
items_within refs (suc d) = items_of (item_of refs (suc d) (items_within refs d))

-- list(item), as a part of a statement
abbrev pub some_items : Bool → Form (List Item)
some_items refs = a_part (SpellsItems refs) (items_within refs)
