-- What the exported calls save and back give: `save_reply` and `back_reply` of crate shelf, with the answer in numbers. Definitions only.
use Rattle.std.specs.Prelude.{◌≡◌, ℕ}
use Rattle.search.specs.declared.Search.{Search}
use Rattle.shelf.specs.Replies.{save_reply, back_reply}
use Rattle.shelf.specs.declared.Shelf.{Shelf}
use Rattle.ffi.specs.declared.Reply.{Reply}
use Rattle.ffi.specs.Answers.{said_of}

-- what save promises of its answer and of the shelf that it leaves
abbrev pub Saves : Search → Shelf → ℕ → Reply → Shelf → Type 0
Saves s h k said after = (said ≡ said_of (save_reply s h k).answer) × (after ≡ (save_reply s h k).shelf)

-- what back promises of its answer and of the record that it leaves
abbrev pub Brings : Search → Shelf → ℕ → Reply → Search → Type 0
Brings s h k said after = (said ≡ said_of (back_reply s h k).answer) × (after ≡ (back_reply s h k).search)
