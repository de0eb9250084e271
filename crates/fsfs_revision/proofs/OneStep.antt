-- The bytes of a revision, and what stands where there may be no representation, are read in one way at most.
use Rattle.std.proofs.Common.{◌≡◌, ℕ, sym, ap, ◌∙◌}
use Rattle.std.specs.Prelude.{Result, Ok, Err, Option, Some, None}
use Rattle.fsfs_revision.specs.declared.wrong.Refusal.{Refusal}
use Rattle.fsfs_revision.specs.declared.wrong.Wrong.{Wrong}
use Rattle.fsfs_revision.specs.declared.wrong.Wrong.TheVariants as wrongs
use Rattle.fsfs_revision.specs.Damage.Readings.{HasOneAnswer}
use Rattle.fsfs_revision.proofs.OneAnswer.{ok_ap, err_ap}
use Rattle.fsfs_revision.specs.Told.{RevisionBytes, BytesOf}
use Rattle.fsfs_noderev.specs.declared.rep.Rep.{Rep}
use Rattle.fsfs_noderev.specs.declared.rep.Contents.{Contents}
use Rattle.fsfs_noderev.specs.declared.rep.Contents.TheVariants as contents
use Rattle.fsfs_revision.specs.Shows.Reading.{OfContents}

pub bytes_one : (look : RevisionBytes) (rev : ℕ) → HasOneAnswer (BytesOf look rev)
bytes_one look rev (Ok a) (Ok b) g h = let e : a ≡ b = (let f = sym g ∙ h in cc) in ok_ap a b e
bytes_one look rev (Ok a) (Err w) g h = let f = sym g ∙ h.1 in absurd cc
bytes_one look rev (Err w) (Ok b) h g = let f = sym g ∙ h.1 in absurd cc
bytes_one look rev (Err w) (Err e) g h =
    let f : g.0 ≡ h.0 = (let f = sym g.1 ∙ h.1 in cc) in err_ap w e (g.2 ∙ ap (λ (r : Refusal). wrongs.Refused r) f ∙ sym h.2)

pub contents_one : {X : Type 0} (nothing : X) (R : Rep → Result X Wrong → Type 0) → ((rep : Rep) → HasOneAnswer (R rep)) → (o : Option Contents) → HasOneAnswer (OfContents nothing R o)
contents_one nothing R each None a b g h = g ∙ sym h
contents_one nothing R each (Some contents.Own) a b g h = absurd g
contents_one nothing R each (Some (contents.At rep)) a b g h = each rep a b g h
