-- Read in this order: the control byte, the operands, the comparison, the output, the calls, what
-- calls that agree are, mask calls that differ in bit 6, the worked examples. `Modes` and
-- `Readings` are for private contracts.
pub mod Control
pub mod Operand
pub mod Compare
pub mod Output
pub mod Calls
pub mod Agree
pub mod Selection
pub mod Specimens
pub mod Modes
pub mod Readings
pub mod Elements
