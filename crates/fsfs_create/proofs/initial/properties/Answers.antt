use Rattle.std.proofs.Common.{◌≡◌, ◌∷◌, [], ap, ◌∙◌}
use Rattle.std.specs.Prelude.{codes}
use Rattle.std.specs.Ordering.{nat_cmp}
use Rattle.std.specs.Cmp.Lexicographic.{slice_cmp}
use Rattle.std.specs.BTreeMap.{insert_entry}
use Rattle.std.proofs.lemmas.Result.{IfOk-weaker}
use Rattle.fsfs_layout.specs.Hash.Dump.{dump_text}
use Rattle.fsfs_create.proofs.InitialLemmas.{dated_text}
use Rattle.fsfs_create.proofs.initial.properties.Goals as goal

pub returns : goal.returns
returns c =
    let first : insert_entry (slice_cmp nat_cmp) c.new-pairs.result c.in_ok-name.name.items c.in_ok-value.value.items ≡ (codes "svn:date", c.args.date.now) ∷ [] =
    (λ i. insert_entry (slice_cmp nat_cmp) (c.new-pairs.ensures i) (c.in_ok-name.ensures.items i) (c.in_ok-value.ensures.items i)) in
    let pairs : c.set.new.self ≡ (codes "svn:date", c.args.date.now) ∷ [] = c.in_ok-set.ensures.ok ∙ first in
    IfOk-weaker c.write_hash.result _ _ (λ v text. text ∙ ap dump_text pairs ∙ dated_text c.args.date.now c.requires) c.write_hash.ensures.text
