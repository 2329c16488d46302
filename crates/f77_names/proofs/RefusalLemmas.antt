-- What a refusal, and its absence, say.
use Rattle.std.proofs.Common.{◌≡◌, List, [], ◌∷◌, Option, None, Some, Ok, Err, Contains, MatchOption, refl, sym, ap, ◌∙◌, subst}
use Rattle.f77_ast.proofs.Refusals.{first_is_earliest}
use Rattle.f77_ast.specs.Refusal.{first_of, NoneIsEarlier}
use Rattle.f77_ast.specs.declared.program.Entity.{Entity}
use Rattle.f77_ast.specs.declared.program.Unit.{Unit as ProgramUnit}
use Rattle.f77_ast.specs.declared.refusal.Refusal.{Refusal}
use Rattle.f77_names.specs.Entities.{entities_of}
use Rattle.f77_names.specs.Laws.{RefusedFilesAreBroken, ResolvedFilesKeepAll}
use Rattle.f77_names.specs.Resolve.{breaks_of, unless_refused}

refused_by : (rs : List Refusal) (o : Option Refusal) (entities : List Entity) (refusal : Refusal) → MatchOption o (rs ≡ []) (λ r. Contains rs r × NoneIsEarlier r rs) → unless_refused o entities ≡ Err refusal → Contains rs refusal × NoneIsEarlier refusal rs
refused_by rs None entities refusal h e = absurd (cc)
refused_by rs (Some r) entities refusal h e = let same : r ≡ refusal = cc in subst (λ s. Contains rs s × NoneIsEarlier s rs) same h

pub refused_are_broken : RefusedFilesAreBroken
refused_are_broken units refusal e = refused_by (breaks_of units) (first_of (breaks_of units)) (entities_of units) refusal (first_is_earliest (breaks_of units)) e

kept_by : (rs : List Refusal) (o : Option Refusal) (entities made : List Entity) → MatchOption o (rs ≡ []) (λ r. Contains rs r × NoneIsEarlier r rs) → unless_refused o entities ≡ Ok made → (rs ≡ []) × (entities ≡ made)
kept_by rs None entities made h e = (h, cc)
kept_by rs (Some r) entities made h e = absurd (cc)

pub resolved_keep_all : ResolvedFilesKeepAll
resolved_keep_all units entities e = kept_by (breaks_of units) (first_of (breaks_of units)) (entities_of units) entities (first_is_earliest (breaks_of units)) e
