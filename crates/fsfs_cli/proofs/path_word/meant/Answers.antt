use Rattle.std.proofs.Common.{◌∙◌, ap, refl, ◌++◌, List, ℕ}
use Rattle.fsfs_cli.proofs.PathLemmas.{last_cut, first_cut, meant_is}
use Rattle.fsfs_cli.proofs.path_word.meant.Goals as goal

pub returns : goal.returns
returns c =
    let front = last_cut c.args.word.now c.before_slash.result c.args.word c.unwrap_or-word.result refl c.before_slash.ensures c.unwrap_or-word.ensures in
    let names = first_cut c.unwrap_or-word.result.now c.behind_slash.result c.unwrap_or-word.result c.unwrap_or-names.result refl c.behind_slash.ensures c.unwrap_or-names.ensures in
    c.in_ok-push_str.ensures.bytes ∙ (ap (λ (l : List ℕ). l ++ c.unwrap_or-names.result.now) c.in_ok-text.ensures.ok ∙ meant_is c.args.word.now c.unwrap_or-word.result.now c.unwrap_or-names.result.now front names)
