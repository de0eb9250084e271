use Rattle.std.proofs.Common.{◌∙◌, ◌≤◌, length, ap, arith}
use Rattle.std.proofs.lemmas.List.{length-append}
use Rattle.fsfs_base.specs.declared.kind.Kind.{Kind}
use Rattle.fsfs_base.specs.declared.kind.Kind.TheVariants.{File, Dir}
use Rattle.fsfs_noderev.proofs.Lengths.{id_most}
use Rattle.fsfs_revision.specs.Shows.Reading.{kind_word}
use Rattle.fsfs_dag.proofs.entry_lists.entry_text.Goals as goal

word_short : (k : Kind) → length (kind_word k) ≤ 5
word_short File = omega arith
word_short Dir = omega arith

pub returns-clause-short : goal.returns-clause-short
returns-clause-short c =
    let put = c.in_ok-put_id.ensures in
    omega (arith, ap length put.parts, length-append c.in_ok-value.value.items put.text, id_most put.text c.args.id.now put.text_is, ap length (c.in_ok-value.ensures.items ∙ c.kind_word.ensures), word_short c.args.kind)
