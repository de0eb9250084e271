use Rattle.fsfs_revision.proofs.GrammarLemmas.{floors_by_grammar, manifests_by_grammar}
use Rattle.fsfs_revision.proofs.laws.places.revisions_are_found_by_grammar.Goals as goal

pub returns-clause-floors : goal.returns-clause-floors
returns-clause-floors c = floors_by_grammar

pub returns-clause-manifests : goal.returns-clause-manifests
returns-clause-manifests c = manifests_by_grammar
