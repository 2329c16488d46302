-- What is known of files on disk.
use Rattle.std.specs.Prelude.{true, None}
use Rattle.hyb_outside.specs.declared.disk_files.DiskFiles.{DiskFiles}
use Rattle.hyb_outside.specs.FilesSeen.{FilesSeen}

-- they tell no content, and every name may be asked for
abbrev pub disk_files_seen : {R F D : Type 0} → DiskFiles R F D → FilesSeen
disk_files_seen f = record { content = λ _. None; faults = f.faults; ends = f.ends; may_read = λ _. true }
