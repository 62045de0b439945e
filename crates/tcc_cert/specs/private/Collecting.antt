-- The parts of a text collected.
use Rattle.std.specs.Prelude.{ℕ, ◌≡◌, ◌≤◌, ◌<◌, ◌⊎◌, List, [], ◌∷◌, ◌++◌, flat_map, None, Some, Result, Ok, Err}
use Rattle.tcc_graph.specs.declared.link.Link.{Link}
use Rattle.tcc_cert.specs.declared.fault.CertFault.{CertFault}
use Rattle.tcc_cert.specs.declared.part.Part.{Part}
use Rattle.tcc_cert.specs.declared.part.Part.TheVariants as part
use Rattle.tcc_cert.specs.declared.reading.ReadTables.{ReadTables}
use Rattle.tcc_cert.specs.Outcomes.{IsFailure}
use Rattle.tcc_cert.specs.Parts.{Parts}

-- the link that a part is, where it is one, and the row of each table
abbrev pub link_in : Part → List Link
link_in (part.Link one) = one ∷ []
link_in _ = []

abbrev pub clock_in : Part → List (List ℕ)
clock_in (part.Clocks row) = row ∷ []
clock_in _ = []

abbrev pub near_row_in : Part → List (List ℕ)
near_row_in (part.Near row) = row ∷ []
near_row_in _ = []

abbrev pub far_row_in : Part → List (List ℕ)
far_row_in (part.Far row) = row ∷ []
far_row_in _ = []

-- one more link or row where the part is one
pub record HasRow (given : Part) (old new : ReadTables) : Type 0 where
  pub links : new.links.items ≡ old.links.items ++ link_in given
  pub clocks : new.clocks.items ≡ old.clocks.items ++ clock_in given
  pub near : new.near.items ≡ old.near.items ++ near_row_in given
  pub far : new.far.items ≡ old.far.items ++ far_row_in given

-- the reader failed or memory was refused, no later than the line at which the reading would have ended
pub record IsCutIn (ahead : Parts) (fault : CertFault) : Type 0 where
  pub failure : IsFailure (Unit {0}) fault.kind
  pub counted : 0 < fault.line
  pub last : fault.line ≤ ahead.line

-- the parts end in this fault, unless the reader failed or memory was refused
abbrev pub EndsIn : Parts → CertFault → Type 0
EndsIn ahead fault = ((ahead.fault ≡ Some fault.kind) × (ahead.line ≡ fault.line)) ⊎ IsCutIn ahead fault

-- the links and rows that were to come, up to the end
pub record HasRowsOf (ahead : Parts) (tables : ReadTables) : Type 0 where
  pub links : tables.links.items ≡ flat_map link_in ahead.parts
  pub clocks : tables.clocks.items ≡ flat_map clock_in ahead.parts
  pub near : tables.near.items ≡ flat_map near_row_in ahead.parts
  pub far : tables.far.items ≡ flat_map far_row_in ahead.parts
  pub ended : ahead.fault ≡ None

abbrev pub Collects : Parts → Result ReadTables CertFault → Type 0
Collects ahead (Ok tables) = HasRowsOf ahead tables
Collects ahead (Err fault) = EndsIn ahead fault
