use Rattle.std.proofs.Common.{◌∙◌, ap, refl, arith, ℕ, Vec, Global}
use Rattle.fsfs_base.proofs.fields.digest.digits.Goals as goal

pub returns : goal.returns
returns c = record { size = refl; bytes_are = λ i. let f = c.type_inv.bytes i in omega arith; text_is = ap (λ (v : Vec ℕ Global). v.items) c.into_bytes.ensures.value ∙ c.in_ok-encode.ensures }
