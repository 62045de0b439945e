-- The bytes of a reader that wait to be judged.
use Rattle.std.specs.Prelude.{ℕ, List, slice_range}
use Rattle.tcc_cert.specs.declared.reading.window.Window.{Window}

-- the bytes that wait
abbrev pub window_bytes : Window → List ℕ
window_bytes window = slice_range window.bytes window.first window.end
