use Rattle.std.proofs.Common.{◌∙◌, ◌∷◌, [], ℕ, List, map, sym, ap}
use Rattle.std.proofs.lemmas.List.{map-append}
use Rattle.std.specs.Prelude.{Some}
use Rattle.fsfs_base.specs.Fields.TxnNames.{txn_name_at}
use Rattle.fsfs_base.specs.declared.fields.txn_name.TxnName.{TxnName}
use Rattle.fsfs_cli.proofs.TxnWords.{named_more, named_none}
use Rattle.fsfs_cli.proofs.txn_names.read_txns.Goals as goal

pub returns-in-None : goal.returns-in-None
returns-in-None c =
    named_none c.args.words.now c.loop-word.word-index _ (map (λ (t : TxnName). (t.base, t.number.number)) c.loop-word.names.items) c.loop-word-test.true c.loop-word.invariant
    (sym (c.in-None.ensures ∙ ap txn_name_at c.as_bytes.ensures.value))

pub loop-word-preserved : goal.loop-word-preserved
loop-word-preserved c =
    named_more c.args.words.now c.loop-word.word-index _ (map (λ (t : TxnName). (t.base, t.number.number)) c.loop-word.names.items) c.loop-word-test.true c.loop-word.invariant (c.in-Some.name.base, c.in-Some.name.number.number)
    (sym (c.in-Some.ensures ∙ ap txn_name_at c.as_bytes.ensures.value))
    ∙ ap (λ (l : List (ℕ × ℕ)). Some l) (sym (ap (map (λ (t : TxnName). (t.base, t.number.number))) c.in_ok-push-in-Some.ensures.items ∙ map-append (λ (t : TxnName). (t.base, t.number.number)) c.loop-word.names.items (c.in-Some.name ∷ [])))
