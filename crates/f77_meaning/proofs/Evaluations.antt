-- Evaluations that ask in turn: each gives a value, meets a fault, or asks for one more answer and goes on with it.
use Rattle.std.proofs.Common.{◌≡◌, ℕ, ℤ, List, [], ◌∷◌, ◌++◌, Option, None, sym, ap, subst, ◌∙◌}
use Rattle.f77_ast.specs.declared.fault.Fault.{Fault}
use Rattle.f77_meaning.specs.Demand.{Demand, gives, wants, fails, and_then}

-- an evaluation gives a value and leaves all its answers, or meets a fault, or asks for the value at an address, and asks in turn once
-- it has that; none of these reads is the last one of an accumulation
pub data AsksInTurn (A : Type 0) : (List ℤ → Demand A) → Type 0 where
  settles : (d : List ℤ → Demand A) (value : A) → ((answers : List ℤ) → d answers ≡ gives value answers) → AsksInTurn A d
  breaks : (d : List ℤ → Demand A) (fault : Fault) → ((answers : List ℤ) → d answers ≡ fails fault) → AsksInTurn A d
  looks : (d : List ℤ → Demand A) (address : ℕ) → d [] ≡ wants address None → ((x : ℤ) → AsksInTurn A (λ answers. d (x ∷ answers))) → AsksInTurn A d

-- what goes on with the value of one asks in turn too
pub then_asks : {A B : Type 0} (d : List ℤ → Demand A) (go : A → List ℤ → Demand B) → AsksInTurn A d → ((value : A) → AsksInTurn B (go value)) → AsksInTurn B (λ answers. and_then (d answers) go)
then_asks {A} {B} _ go (settles d value e) h =
    let same : (λ (answers : List ℤ). and_then (d answers) go) ≡ go value = λ i answers. and_then (e answers i) go in
    subst (AsksInTurn B) (sym same) (h value)
then_asks _ go (breaks d fault e) h = breaks (λ answers. and_then (d answers) go) fault (λ answers. ap (λ r. and_then r go) (e answers))
then_asks _ go (looks d address e rest) h =
    looks (λ answers. and_then (d answers) go) address (ap (λ r. and_then r go) e) (λ x. then_asks (λ answers. d (x ∷ answers)) go (rest x) h)

-- its reads are none of an accumulation
pub unmarked : {A : Type 0} (d : List ℤ → Demand A) (answers : List ℤ) (address : ℕ) (op : Option _) → AsksInTurn A d → d answers ≡ wants address op → op ≡ None
unmarked _ answers address op (settles d value e) h = let c : gives value answers ≡ wants address op = sym (e answers) ∙ h in absurd (cc)
unmarked _ answers address op (breaks d fault e) h = let c : fails fault ≡ wants address op = sym (e answers) ∙ h in absurd (cc)
unmarked _ [] address op (looks d a e rest) h = let c : wants a None ≡ wants address op = sym e ∙ h in cc
unmarked _ (x ∷ answers) address op (looks d a e rest) h = unmarked (λ more. d (x ∷ more)) answers address op (rest x) h

-- with more answers it gives the same value, and leaves them
pub extends : {A : Type 0} (d : List ℤ → Demand A) (answers rest more : List ℤ) (value : A) → AsksInTurn A d → d answers ≡ gives value rest → d (answers ++ more) ≡ gives value (rest ++ more)
extends _ answers rest more value (settles d v e) h =
    let c : gives v answers ≡ gives value rest = sym (e answers) ∙ h in
    let same : v ≡ value = cc in
    let left : answers ≡ rest = cc in
    e (answers ++ more) ∙ (λ i. gives (same i) (left i ++ more))
extends _ answers rest more value (breaks d fault e) h = let c : fails fault ≡ gives value rest = sym (e answers) ∙ h in absurd (cc)
extends _ [] rest more value (looks d a e go) h = let c : wants a None ≡ gives value rest = sym e ∙ h in absurd (cc)
extends _ (x ∷ answers) rest more value (looks d a e go) h = extends (λ further. d (x ∷ further)) answers rest more value (go x) h

-- on no answers it leaves none
pub leaves_none : {A : Type 0} (d : List ℤ → Demand A) (rest : List ℤ) (value : A) → AsksInTurn A d → d [] ≡ gives value rest → rest ≡ []
leaves_none _ rest value (settles d v e) h = let c : gives v [] ≡ gives value rest = sym (e []) ∙ h in cc
leaves_none _ rest value (breaks d fault e) h = let c : fails fault ≡ gives value rest = sym (e []) ∙ h in absurd (cc)
leaves_none _ rest value (looks d a e go) h = let c : wants a None ≡ gives value rest = sym e ∙ h in absurd (cc)

-- where it asks, one answer more is used up
pub uses_up : {A : Type 0} (d : List ℤ → Demand A) (answers rest : List ℤ) (address : ℕ) (op : Option _) (x : ℤ) (value : A) → AsksInTurn A d → d answers ≡ wants address op → d (answers ++ x ∷ []) ≡ gives value rest → rest ≡ []
uses_up _ answers rest address op x value (settles d v e) h g = let c : gives v answers ≡ wants address op = sym (e answers) ∙ h in absurd (cc)
uses_up _ answers rest address op x value (breaks d fault e) h g = let c : fails fault ≡ wants address op = sym (e answers) ∙ h in absurd (cc)
uses_up _ [] rest address op x value (looks d a e go) h g = leaves_none (λ further. d (x ∷ further)) rest value (go x) g
uses_up _ (y ∷ answers) rest address op x value (looks d a e go) h g = uses_up (λ further. d (y ∷ further)) answers rest address op x value (go y) h g
