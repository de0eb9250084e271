-- What is added to a sink in two writes.
use Rattle.std.proofs.Common.{ℕ, List, ◌++◌, ap, subst, ◌∙◌, append_assoc}
use Rattle.std.specs.Prelude.{Option, Some, None}
use Rattle.fsfs_base.specs.Streams.{Adds}

pub adds_then : (old mid new : Option (List ℕ)) (xs ys : List ℕ) → Adds old mid xs → Adds mid new ys → Adds old new (xs ++ ys)
adds_then None mid new xs ys a b = tt
adds_then (Some o) mid new xs ys a b = subst (λ m. Adds m new ys) a b ∙ ap (λ z. Some z) (append_assoc o xs ys)
