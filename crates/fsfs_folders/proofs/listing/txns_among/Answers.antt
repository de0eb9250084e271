use Rattle.std.proofs.Common.{◌≡◌, rules, List, ℕ, [], ◌∷◌, ◌++◌, ◌+◌, ◌-◌, Bool, cond, take, length, refl, true, false, sym, ap, subst, ◌∙◌, arith}
use Rattle.std.proofs.lemmas.List.{take_all, take_more}
use Rattle.fsfs_folders.specs.TxnEntries.{txns_among, is_txn_entry}
use Rattle.fsfs_folders.proofs.TxnEntries.{among_append}
use Rattle.fsfs_folders.proofs.listing.txns_among.Goals as goal

pub loop-name-preserved : goal.loop-name-preserved
loop-name-preserved c =
    let names = c.args.names.now in
    let i = c.loop-name.name-index in
    let name = c.name-item.result in
    c.in_ok-push_txn.ensures ∙ ap (λ (l : List (List ℕ)). l ++ cond (is_txn_entry name) (name ∷ []) []) c.loop-name.invariant
    ∙ sym (among_append (take i names) name) ∙ ap txns_among (ap (λ (f : List ℕ). take i names ++ f ∷ []) c.name-item.is ∙ sym (take_more names i name (omega arith)))

pub returns : goal.returns
returns c = c.loop-name.invariant ∙ ap txns_among (take_all c.loop-name.name-index c.args.names.now (omega arith))
