-- how a draft is kept
use Rattle.std.specs.Prelude.{◌≤◌, length}
use Rattle.csp_base.specs.declared.limits.TheConstants.{MAX_FRAME}
use Rattle.csp_log.specs.Rows.{IsDeedLong}
use Rattle.csp_log.specs.declared.draft.Draft.TheInside.{Inside}

-- a draft's bytes are those of its deed, and no more than it has room for
pub record IsKept (d : Inside) : Type 0 where
  pub fits : IsDeedLong (length d.bytes.value.items) d.deed
  pub short : length d.bytes.value.items ≤ MAX_FRAME
