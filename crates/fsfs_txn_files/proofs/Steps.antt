-- A text while it is taken, piece after piece.
use Rattle.std.proofs.Common.{◌≡◌, ◌≤◌, ◌+◌, ℕ, List, [], ◌++◌, length, take, Option, sym, ap, subst, ◌∙◌, append_assoc, append-nil, arith}
use Rattle.std.specs.Prelude.{option_map, codes}
use Rattle.std.proofs.lemmas.List.{length-append, length-take}
use Rattle.fsfs_base.specs.Files.{Files}
use Rattle.fsfs_disk.specs.Benches.{appended}
use Rattle.fsfs_disk.proofs.PublishLemmas.{two_pieces}
use Rattle.fsfs_txn_files.specs.declared.proto_rev.text_error.TheConstants.{MAX_TEXT}
use Rattle.fsfs_txn_files.specs.declared.proto_rev.taken.Taken.{Taken}
use Rattle.fsfs_txn_files.specs.ProtoRev.Sources.{GivesFront, GivesAll}
use Rattle.fsfs_txn_files.specs.ProtoRev.Views.{HasTaken}
use Rattle.fsfs_txn_files.specs.ProtoRev.Texts.{IsTakenText}
use Rattle.fsfs_txn_files.proofs.SourceLemmas.{front_none, front_more, front_all}
use Rattle.fsfs_revision.specs.Rep.Frames.{framed_text}

abbrev pub plain : List ℕ
plain = codes "PLAIN\n"

pub record IsTaking (old new : Option Files) (from mid : Option (List ℕ)) (name : List ℕ) (taken : Taken) : Type 0 where
  pub text : List ℕ
  pub has : HasTaken taken text
  pub given : GivesFront from mid text
  pub short : length text ≤ MAX_TEXT
  pub files : new ≡ option_map (appended name (plain ++ text)) old

pub begins : (old new : Option Files) (from : Option (List ℕ)) (name : List ℕ) (taken : Taken) → HasTaken taken [] → new ≡ option_map (appended name plain) old → IsTaking old new from from name taken
begins old new from name taken has files = record {
  text = [];
  has = has;
  given = front_none from;
  short = omega arith;
  files = files ∙ ap (λ (t : List ℕ). option_map (appended name t) old) (sym (append-nil plain));
}

pub goes_on : (old mid new : Option Files) (from before now : Option (List ℕ)) (name piece : List ℕ) (taken after : Taken) → IsTaking old mid from before name taken → GivesFront before now piece → taken.length + length piece ≤ MAX_TEXT
    → new ≡ option_map (appended name piece) mid → ((text : List ℕ) → HasTaken taken text → HasTaken after (text ++ piece)) → IsTaking old new from now name after
goes_on old mid new from before now name piece taken after w gives fits files adds = record {
  text = w.text ++ piece;
  has = adds w.text w.has;
  given = front_more from before now w.text piece w.given gives;
  short = omega (arith, length-append w.text piece, w.has.length_is, fits);
  files = two_pieces old mid new name (plain ++ w.text) piece w.files files ∙ ap (λ (t : List ℕ). option_map (appended name t) old) (append_assoc plain w.text piece);
}

pub ends : (old new : Option Files) (from before now : Option (List ℕ)) (name : List ℕ) (taken : Taken) → IsTaking old new from before name taken → GivesAll before now [] → IsTakenText old new from now name taken
ends old new from before now name taken w gives = record {
  text = w.text;
  has = w.has;
  given = subst (λ (t : List ℕ). GivesAll from now t) (append-nil w.text) (front_all from before now w.text [] w.given gives);
  short = w.short;
  files = w.files;
}

-- with the trailer
pub framed_files : (old mid new : Option Files) (name text : List ℕ) → mid ≡ option_map (appended name (plain ++ text)) old → new ≡ option_map (appended name (codes "ENDREP\n")) mid → new ≡ option_map (appended name (framed_text text)) old
framed_files old mid new name text first second =
    two_pieces old mid new name (plain ++ text) (codes "ENDREP\n") first second
    ∙ ap (λ (t : List ℕ). option_map (appended name t) old) (append_assoc plain text (codes "ENDREP\n"))

pub taken_piece : (n : ℕ) (piece : List ℕ) → n ≤ length piece → length (take n piece) ≡ n
taken_piece n piece le = omega (arith, length-take n piece, le)
