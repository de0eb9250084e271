use Rattle.fsfs_stands.proofs.OneText.{tree_one, file_one}
use Rattle.fsfs_stands.proofs.printed_laws.looks_have_one_text.Goals as goal

pub returns-clause-trees : goal.returns-clause-trees
returns-clause-trees c = tree_one

pub returns-clause-files : goal.returns-clause-files
returns-clause-files c = file_one
