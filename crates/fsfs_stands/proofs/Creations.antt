-- The files of a creation, laid over any others, are those of a new repository.
use Rattle.std.proofs.Common.{◌≡◌, List, [], ◌∷◌, true, refl, ◌∙◌}
use Rattle.std.specs.Prelude.{codes}
use Rattle.std.specs.FinMap.{insert, remove}
use Rattle.std.proofs.lemmas.Bool.{and_parts}
use Rattle.fsfs_base.specs.Files.{Files, NamedFile, lay_over}
use Rattle.fsfs_layout.proofs.Identifiers.{identifier_length, identifier_lacks}
use Rattle.fsfs_layout.proofs.NamedFiles.{lacks, get_laid, are_apart}
use Rattle.fsfs_base.proofs.FileLemmas.{get_new}
use Rattle.fsfs_layout.specs.Layouts.{shard_size}
use Rattle.fsfs_layout.specs.CreatedFiles.{created_files, identifier_text, Holds}
use Rattle.fsfs_stands.specs.NewRepository.{CreationsHoldNew}

-- files laid over others are there, where no two of them have one name
holds_laid : (files : List NamedFile) (m : Files) → are_apart files ≡ true → Holds files (lay_over files m)
holds_laid [] m h = tt
holds_laid (file ∷ files) m h =
    let p = and_parts (lacks file.0 files) (are_apart files) h in
    (get_laid files (insert m file.0 file.1) file.0 p.0 ∙ get_new m file.0 file.1, holds_laid files (insert m file.0 file.1) p.1)

-- ---- the files

pub creations_hold_new : CreationsHoldNew
creations_hold_new layout moment id date m packs dated = record {
  layout = layout;
  packs = packs;
  identifier = identifier_text id;
  moment = dated.0;
  characters = identifier_length id;
  one_line = identifier_lacks id;
  dated = dated.2;
  new = holds_laid (created_files (shard_size layout) (identifier_text id) date) (remove m (codes "db/format-next")) refl;
}
