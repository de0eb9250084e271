use Rattle.std.proofs.Common.{◌≡◌, rules, List, ℕ, [], ◌∷◌, sym, ap, ◌∙◌}
use Rattle.fsfs_folders.proofs.ProtoLemmas.{gone_as, first_has}
use Rattle.fsfs_folders.proofs.folders.Folders.proto.Goals as goal

pub returns-clause-gone : goal.returns-clause-gone
returns-clause-gone g c =
    gone_as (g.C.Calls.history c.new-2.result.part.calls) (g.C.Calls.history c.in_ok-part.part) c.new-2.result.name c.in_ok-name.name (ap (g.C.Calls.history) (c.new-2.ensures.calls ∙ c.new.ensures)) c.new-2.ensures.name
    (c.in_ok-part.ensures.gone c.in_ok-name.name (first_has c.in_ok-name.name c.copy.result (c.in_ok-lock.lock ∷ []) c.copy.ensures))
