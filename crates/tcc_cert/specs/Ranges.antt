-- What each version of the certificate's text allows.
use Rattle.tcc_cert.specs.declared.ranges.Ranges.{Ranges}
use Rattle.tcc_cert.specs.declared.ranges.TextFormat.{TextFormat}
use Rattle.tcc_cert.specs.declared.ranges.TextFormat.TheVariants.{Small, Large}
use Rattle.tcc_cert.specs.declared.version.Version.{Version}
use Rattle.tcc_cert.specs.declared.version.Version.TheVariants.{One, Two}
use Rattle.tcc_cert.specs.declared.version_1.TheConstants.{V1_MAX_COST, V1_MAX_COUNT, V1_MAX_LINE_BYTES, V1_MAX_NUMBER, V1_MAX_SESSIONS}
use Rattle.tcc_cert.specs.declared.version_2.TheConstants.{V2_MAX_COST, V2_MAX_COUNT, V2_MAX_LINE_BYTES, V2_MAX_NUMBER, V2_MAX_SESSIONS}
use Rattle.tcc_cert.specs.declared.version_3.TheConstants.{V3_MAX_COST, V3_MAX_COUNT, V3_MAX_LINE_BYTES, V3_MAX_NUMBER, V3_MAX_SESSIONS}

abbrev pub ranges_of : Version → Ranges
ranges_of One =
    record { count = V1_MAX_COUNT; number = V1_MAX_NUMBER; sessions = V1_MAX_SESSIONS; cost = V1_MAX_COST; line_bytes = V1_MAX_LINE_BYTES }
ranges_of Two =
    record { count = V2_MAX_COUNT; number = V2_MAX_NUMBER; sessions = V2_MAX_SESSIONS; cost = V2_MAX_COST; line_bytes = V2_MAX_LINE_BYTES }

-- those of version 3 too
abbrev pub ranges_at : TextFormat → Ranges
ranges_at (Small version) = ranges_of version
ranges_at Large =
    record { count = V3_MAX_COUNT; number = V3_MAX_NUMBER; sessions = V3_MAX_SESSIONS; cost = V3_MAX_COST; line_bytes = V3_MAX_LINE_BYTES }
