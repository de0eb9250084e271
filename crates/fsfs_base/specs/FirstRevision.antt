-- The bytes of revision 0 of a new repository: the empty directory's representation at 0, its node-revision at 17, no changed paths,
-- and the trailer. (The libsvn_fs_fs structure file, "Revision file format"; Subversion's own `svnadmin create` writes the same bytes.)
use Rattle.std.specs.Prelude.{ℕ, List, codes}

abbrev pub first_bytes : List ℕ
first_bytes = codes "PLAIN\nEND\nENDREP\nid: 0.0.r0/17\ntype: dir\ncount: 0\ntext: 0 0 4 4 2d2977d1c96f487abe4a1e202dd03b4e\ncpath: /\n\n\n17 107\n"
