-- Bindings without entities.
use Rattle.std.specs.Prelude.{◌≡◌, []}
use Rattle.hyb_base.specs.declared.env.Env.{Env}

-- no entity is bound, and there is no region
pub record IsBare (env : Env) : Type 0 where
  pub bases : env.bases ≡ []
  pub spans : env.spans ≡ []
