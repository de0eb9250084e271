use Rattle.std.proofs.Common.{◌≡◌, rules, List, ℕ, [], ◌∷◌, ◌++◌, ◌+◌, ◌-◌, Bool, cond, take, length, refl, true, false, sym, ap, subst, ◌∙◌, arith}
use Rattle.fsfs_base.specs.Fields.TxnNames.{txn_name_at}
use Rattle.fsfs_base.specs.Files.{same_text}
use Rattle.fsfs_folders.proofs.TxnEntries.{entry_named, entry_none, same_tested}
use Rattle.fsfs_folders.proofs.listing.is_txn_entry.Goals as goal

pub returns-in-Some : goal.returns-in-Some
returns-in-Some c =
    let name = c.args.name.now in
    let text : c.as_bytes-text.result.now ≡ name = c.as_bytes-text.ensures.value ∙ c.as_str.ensures.text in
    let count : c.saturating_sub.result ≡ length name - 4 = omega (arith, c.saturating_sub.ensures, ap (λ (t : List ℕ). length t) text) in
    entry_named name (c.in-Some.txn.base, c.in-Some.txn.number.number) c.is.result
    (sym (c.in-Some.ensures ∙ ap (λ t. txn_name_at (take c.saturating_sub.result t)) text ∙ ap (λ k. txn_name_at (take k name)) count))
    (same_tested c.is.result c.txn_entry.result name c.is.ensures ∙ ap (λ a. same_text a name) c.txn_entry.ensures)

pub returns-in-None : goal.returns-in-None
returns-in-None c =
    let name = c.args.name.now in
    let text : c.as_bytes-text.result.now ≡ name = c.as_bytes-text.ensures.value ∙ c.as_str.ensures.text in
    let count : c.saturating_sub.result ≡ length name - 4 = omega (arith, c.saturating_sub.ensures, ap (λ (t : List ℕ). length t) text) in
    entry_none name (sym (c.in-None.ensures ∙ ap (λ t. txn_name_at (take c.saturating_sub.result t)) text ∙ ap (λ k. txn_name_at (take k name)) count))
