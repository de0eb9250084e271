-- What a refusal says of the draft that is given back.
use Rattle.fsfs_commit.specs.declared.committing.CommitFault.{CommitFault}
use Rattle.fsfs_commit.specs.declared.committing.CommitFault.TheVariants.{RevsFull, Stuck, Refused as Refuses, DiskFault}

-- a fact of a refusal, where the draft was refused
abbrev pub IfRefused : {E : Type 0} → (E → Type 0) → CommitFault E → Type 0
IfRefused P RevsFull = Unit {0}
IfRefused P (Stuck place) = Unit {0}
IfRefused P (Refuses refusal) = P refusal
IfRefused P (DiskFault place) = Unit {0}

-- and of its bench: a draft that was not refused is not used up, unless its bench failed
abbrev pub LeavesSo : {E : Type 0} → Type 0 → (E → Type 0) → CommitFault E → Type 0
LeavesSo lives blames RevsFull = lives
LeavesSo lives blames (Stuck place) = lives
LeavesSo lives blames (Refuses refusal) = blames refusal
LeavesSo lives blames (DiskFault place) = Unit {0}
