-- What is told stays told.
use Rattle.std.proofs.Common.{◌≡◌, ℕ, Some}
use Rattle.fsfs_revision.specs.Told.{RevisionBytes, Telling, Knows, Keeps}

pub told_later : {Below : Type 0} (old new : Telling Below) (look : RevisionBytes) (rev : ℕ) → Keeps old new → old.revs rev ≡ Some (look rev) → new.revs rev ≡ Some (look rev)
told_later old new look rev kept told = kept.revs rev (look rev) told

pub knows_later : {Below : Type 0} (old new : Telling Below) (look : RevisionBytes) (top : ℕ) → Keeps old new → Knows old.revs top look → Knows new.revs top look
knows_later old new look top kept knows r le = kept.revs r (look r) (knows r le)
