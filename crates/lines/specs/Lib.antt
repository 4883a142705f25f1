pub mod Items
pub mod Numbers
pub mod Requests
pub mod Printed
