-- What the filling of the tables from an OPB text needs and says.
pub mod Fill
