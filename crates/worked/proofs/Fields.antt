-- The laws of both fields. Assumes nothing.
use Rattle.field.specs.Field.{Laws}
use Rattle.field.specs.Bytes.{byte_laws}
use Rattle.field.specs.Residues.{prime_laws}
use Rattle.worked.specs.Table.{Kind, bytes, residues, field_of}

pub laws_of : (k : Kind) → Laws (field_of k)
laws_of bytes = byte_laws
laws_of residues = prime_laws
