-- What files in memory hold.
use Rattle.std.specs.Prelude.{◌≡◌, ℕ, true, List, Option, None, ◌⊎◌}
use Rattle.hyb_outside.specs.declared.mem_files.MemFiles.{MemFiles}
use Rattle.hyb_outside.specs.Calls.{IsListed}
use Rattle.hyb_outside.specs.FilesSeen.{FilesSeen}
use Rattle.hyb_outside.specs.Table.{content_of}

-- the content of each name: none where the name is missing; the numbers of the calls that are to fail, how
-- many calls were made, how many failed, and how many ends were given
pub record FilesHeld : Type 0 where
  pub content : List ℕ → Option (List ℕ)
  pub fails : List ℕ
  pub calls : ℕ
  pub faults : ℕ
  pub ends : ℕ

-- what files in memory hold
abbrev pub mem_files_held : MemFiles → FilesHeld
mem_files_held m = record { content = content_of m.table; fails = m.calls.fails; calls = m.calls.calls; faults = m.faults; ends = m.ends }

-- what is known of them: they tell each content, and every name may be asked for
abbrev pub mem_files_seen : MemFiles → FilesSeen
mem_files_seen m = record { content = content_of m.table; faults = m.faults; ends = m.ends; may_read = λ _. true }

-- the next call is listed, or the name is missing
abbrev pub FailsAt : FilesHeld → List ℕ → Type 0
FailsAt held name = IsListed held.fails held.calls ⊎ (held.content name ≡ None)
