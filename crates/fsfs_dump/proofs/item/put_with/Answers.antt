use Rattle.std.proofs.Common.{◌≡◌, ◌++◌, ◌∙◌, ℕ, List, [], Some, sym, ap, subst}
use Rattle.std.specs.Prelude.{Option, OnOk, option_map, unwrap_or}
use Rattle.std.specs.declared.vec.Vec.{Vec}
use Rattle.std.specs.declared.alloc.Global.{Global}
use Rattle.fsfs_dump.specs.Records.{facts_of, records_head, record_end}
use Rattle.fsfs_dump.specs.Readings.{source_of}
use Rattle.fsfs_dump.specs.Views.{block_value, text_value}
use Rattle.fsfs_dump.proofs.item.put_with.Goals as goal

pub returns-in-Some : goal.returns-in-Some
returns-in-Some c =
    let item = c.args.item.now in
    let Goal : Option (List ℕ) → Type 0 = λ o.
    OnOk c.put_text.result (c.put_text.new.lines.items ≡ c.args.lines.now.items ++ (records_head item.path item.action c.args.kind (source_of item) (block_value c.args.block.now) (option_map facts_of o) ++ unwrap_or o [] ++ record_end)) in
    let same = ap (λ (t : List ℕ). Some t) c.deref.ensures.value ∙ sym (ap (λ (t : Option (Vec ℕ Global)). text_value t) c.in-Some.is) in
    subst Goal same c.put_text.ensures
