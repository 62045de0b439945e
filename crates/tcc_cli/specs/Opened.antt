-- How files are opened.
use Rattle.std.specs.Prelude.{◌≡◌, ◌≤ℤ◌, pos, true, false}
use Rattle.std.specs.Fd.{file_raw_fd}
use Rattle.std.specs.Fs.{asks_append, asks_create, asks_create_new, asks_truncate, asks_write}
use Rattle.std.specs.declared.fs.File.{File}
use Rattle.std.specs.declared.fs.options.OpenOptions.{OpenOptions}

-- its descriptor is none of the first three, so it takes the place of no standard stream
abbrev pub IsAside : File → Type 0
IsAside file = pos 3 ≤ℤ file_raw_fd file

-- a file to write that isn't there is made, and one that is there keeps what it holds
pub record LeavesAsIs (options : OpenOptions) : Type 0 where
  pub write : asks_write options ≡ true
  pub create : asks_create options ≡ true
  pub only_new : asks_create_new options ≡ false
  pub append : asks_append options ≡ false
  pub truncate : asks_truncate options ≡ false
