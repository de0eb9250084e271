-- What follows of a path past a limit.
use Rattle.fsfs_noderev.specs.declared.limits.limit.PathLimit.{PathLimit}
use Rattle.fsfs_noderev.specs.declared.limits.limit.LimitError.{LimitError}
use Rattle.fsfs_noderev.specs.declared.limits.limit.LimitError.TheVariants as errors
use Rattle.fsfs_noderev.specs.Limits.{IfPast}

pub past_more : (P Q : PathLimit → Type 0) → ((limit : PathLimit) → P limit → Q limit) → (e : LimitError) → IfPast P e → IfPast Q e
past_more P Q more errors.OutOfMemory h = tt
past_more P Q more (errors.Past limit) h = more limit h
