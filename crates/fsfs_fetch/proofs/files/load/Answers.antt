use Rattle.std.proofs.Common.{◌≡◌, ℕ, List, [], Vec, Global, ap, subst, ◌∙◌}
use Rattle.std.specs.Prelude.{Option, option_map, unwrap_or}
use Rattle.fsfs_disk.specs.WholeFiles.FirstBytes.{first_of}
use Rattle.fsfs_fetch.proofs.ManifestLemmas.{first_or}
use Rattle.fsfs_fetch.proofs.files.load.Goals as goal

pub returns-in-Ok-Some-clause-told : goal.returns-in-Ok-Some-clause-told
returns-in-Ok-Some-clause-told g c = λ file s.
    let P : Option (Vec ℕ Global) → Type 0 = λ o. option_map (λ v. v.items) o ≡ first_of c.args.most file in
    ap (λ (o : Option (List ℕ)). unwrap_or o []) (subst P c.in-Ok-Some.field-0-is (c.in-Ok-Some.ensures.bytes file s)) ∙ first_or c.args.most file

pub returns-in-Ok-None-clause-told : goal.returns-in-Ok-None-clause-told
returns-in-Ok-None-clause-told g c = λ file s.
    let P : Option (Vec ℕ Global) → Type 0 = λ o. option_map (λ v. v.items) o ≡ first_of c.args.most file in
    c.new.ensures.items ∙ ap (λ (o : Option (List ℕ)). unwrap_or o []) (subst P c.in-Ok-None.field-0-is (c.in-Ok-None.ensures.bytes file s)) ∙ first_or c.args.most file
