-- A line that is refused.
use Rattle.fsfs_noderev.specs.declared.node_rev.Which.{Which}
use Rattle.fsfs_noderev.specs.declared.fields.LineError.{LineError}
use Rattle.fsfs_noderev.specs.declared.fields.LineError.TheVariants.{OutOfMemory, Refused}

-- what is said of a refusal; want of memory says nothing
abbrev pub IfRefused : (Which → Type 0) → LineError → Type 0
IfRefused P OutOfMemory = Unit {0}
IfRefused P (Refused which) = P which
