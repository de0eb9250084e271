-- A list of a directory's entries or of properties that was put behind what stands in a new revision so far.
--
-- The libsvn_fs_fs structure file has the form of a representation ("Revision file format").
use Rattle.std.specs.Prelude.{◌≡◌, ◌+◌, ℕ, List, [], ◌++◌, length, Option, Some, None, unwrap_or}
use Rattle.fsfs_noderev.specs.declared.rep.Rep.{Rep}
use Rattle.fsfs_noderev.specs.declared.rep.Contents.{Contents}
use Rattle.fsfs_noderev.specs.declared.rep.Contents.TheVariants as contents
use Rattle.fsfs_layout.specs.Hash.Dump.{Entries, IsDump, dump_text}
use Rattle.fsfs_revision.specs.Shows.Reading.{Pairs}
use Rattle.fsfs_revision.specs.Rep.Frames.{framed_text}
use Rattle.fsfs_final.specs.Laid.{IsRepAt, IsFramed}

-- the dump of the pairs, each once and in the order of their keys
pub record IsTextOf (pairs : Pairs) (text : List ℕ) : Type 0 where
  pub text_is : text ≡ dump_text pairs
  pub dump : IsDump text pairs
  pub in_order : Entries text pairs

-- and where there is no list there is no text
abbrev pub AreTextOf : Option Pairs → Option (List ℕ) → Type 0
AreTextOf None None = Unit {0}
AreTextOf None (Some text) = ⊥
AreTextOf (Some pairs) None = ⊥
AreTextOf (Some pairs) (Some text) = IsTextOf pairs text

-- a text was put behind `old`, which begins at the offset `start` of revision n
pub record IsTextPut (n start : ℕ) (old new text : List ℕ) (rep : Rep) : Type 0 where
  pub rev_is : rep.rev ≡ Some n
  pub is : IsRepAt (start + length old) rep text
  pub added : new ≡ old ++ framed_text text

-- the list was put behind `old`, which begins at the offset `start` of revision n
pub record IsListPut (n start : ℕ) (old new : List ℕ) (pairs : Pairs) (rep : Rep) : Type 0 where
  pub rev_is : rep.rev ≡ Some n
  pub is : IsRepAt (start + length old) rep (dump_text pairs)
  pub dump : IsDump (dump_text pairs) pairs
  pub in_order : Entries (dump_text pairs) pairs
  pub added : new ≡ old ++ framed_text (dump_text pairs)

-- a list that there is no file for is empty
abbrev pub list_of : Option Pairs → Pairs
list_of None = []
list_of (Some pairs) = pairs

-- what stands in the prototype file stands in revision n
abbrev pub in_revision : ℕ → Rep → Rep
in_revision n rep = record rep { rev = Some (unwrap_or rep.rev n) }

-- a text or properties as revision n has them: a list that stands in a file of its own was put
abbrev pub AreContentsPut : (n start : ℕ) (old new : List ℕ) → Option Contents → Option Pairs → Option Contents → Type 0
AreContentsPut n start old new None list done = (done ≡ None) × (new ≡ old)
AreContentsPut n start old new (Some (contents.At rep)) list done = (done ≡ Some (contents.At (in_revision n rep))) × (new ≡ old)
AreContentsPut n start old new (Some contents.Own) list done = (rep : Rep) × (done ≡ Some (contents.At rep)) × IsListPut n start old new (list_of list) rep

-- behind the prototype file, and whatever is put behind it
abbrev pub PutListsAreFramed : Type 0
PutListsAreFramed = (n start : ℕ) (proto old new : List ℕ) (pairs : Pairs) (rep : Rep) → IsListPut n start old new pairs rep → length proto ≡ start
    → IsFramed (proto ++ new) rep (dump_text pairs)
