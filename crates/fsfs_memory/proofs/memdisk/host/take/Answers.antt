use Rattle.std.proofs.Common.{rules, sym, ap, ◌∙◌}
use Rattle.std.specs.Prelude.{Some}
use Rattle.std.specs.BTreeMap.{get_by_text, is_at}
use Rattle.std.specs.Map.{update, lookup}
use Rattle.std.specs.Str.{bytes_eq}
use Rattle.std.proofs.lemmas.Map.Steps.{set_value_same}
use Rattle.std.proofs.lemmas.Map.Text.{btree_map_updates_text, text_cmp}
use Rattle.fsfs_base.proofs.ResultLemmas.{some_all, none_from}
use Rattle.fsfs_memory.proofs.memdisk.host.take.Goals as goal

pub returns-in-Some-clause-emptied : goal.returns-in-Some-clause-emptied
returns-in-Some-clause-emptied c = some_all c.take.result _ (λ p.
    btree_map_updates_text c.args.path.now c.args.disks.now (c.get_mut.follows.lender c.take.new.self) _ ((c.get_mut.follows.holds c.take.new.self).3 (search rules)) p
    ∙ ap (λ place. update bytes_eq (get_by_text c.args.disks.now) c.args.path.now (Some place) p) c.take.ensures.after)

pub returns-in-Some-clause-none : goal.returns-in-Some-clause-none
returns-in-Some-clause-none c = none_from c.take.result _ (λ none p.
    ap (λ entries. lookup (is_at (text_cmp p)) entries)
    ((c.get_mut.follows.holds c.take.new.self).0
    ∙ set_value_same (is_at (text_cmp c.args.path.now)) c.args.disks.now.entries c.take.new.self
    (sym c.in-Some.ensures.value ∙ ap (λ place. Some place) (sym c.take.ensures.value ∙ none ∙ sym c.take.ensures.after))))
